pub mod RowNumbers
pub mod Areas
pub mod Loads
pub mod GoodRows
pub mod Ways
pub mod Promises
mod Reading
