pub mod Store
pub mod Steps
