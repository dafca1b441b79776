pub mod Catalogue
pub mod Steps
