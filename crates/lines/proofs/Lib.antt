mod Counting
mod Seeing
pub mod Seen
pub mod Rows
pub mod Passed
