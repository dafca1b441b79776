pub mod Tally
pub mod Search
pub mod Links
pub mod Rows
pub mod Alone
mod Cases
