pub mod Seats
pub mod Laying
pub mod Telling
pub mod Tests
mod Cases
pub mod Looking
pub mod Laid
