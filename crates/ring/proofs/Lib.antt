pub mod Turn
pub mod Standing
pub mod Onward
