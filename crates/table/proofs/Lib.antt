pub mod Judging
pub mod Whole
pub mod WellFormed
