mod Cases
mod Putting
pub mod Said
pub mod Told
