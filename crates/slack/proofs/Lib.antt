pub mod Signed
pub mod Bits
pub mod Rule
pub mod Ending
pub mod Figures
pub mod Cells
