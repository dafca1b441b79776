pub mod First
pub mod Order
pub mod Best
pub mod Named
pub mod Arriving
pub mod Choice
pub mod Signed
pub mod Planning
