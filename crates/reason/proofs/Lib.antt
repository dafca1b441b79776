mod Marks
mod Finding
pub mod Saying
pub mod Promises
