pub mod Lines
mod Listing
mod Sending
mod Verdict
pub mod Sizes
pub mod Accepting
pub mod Responding
pub mod Cases
pub mod Shape
pub mod Rest
