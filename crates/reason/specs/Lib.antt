pub mod Reason
pub mod Steps
