pub mod Loaded
pub mod Answering
pub mod Good
pub mod Judged
pub mod Promises
pub mod EmptyTable
pub mod Starting
pub mod Turns
pub mod Seen
pub mod Divided
mod Cases
pub mod Crossed
