pub mod Jam
pub mod Members
