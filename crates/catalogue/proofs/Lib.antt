pub mod Accepted
pub mod Cases
mod Cutting
pub mod Keys
mod Labels
mod LineLemmas
pub mod Strings
pub mod Told
pub mod Places
