pub mod RowsAfter
pub mod Editing
pub mod Promises
mod Cases
mod Outcomes
