pub mod Build
pub mod Figures
pub mod Filling
pub mod FirstPlace
pub mod Fronts
pub mod Truth
pub mod Sums
