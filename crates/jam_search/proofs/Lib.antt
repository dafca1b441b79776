pub mod Cells
mod Counting
mod Searching
