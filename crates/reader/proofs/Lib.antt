mod Loading
mod Heading
pub mod Taking
