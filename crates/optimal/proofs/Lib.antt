pub mod Count
pub mod Tests
mod Cases
pub mod Moving
pub mod Plan
pub mod Deliveries
pub mod Window
pub mod Round
pub mod Slots
pub mod Optimal
pub mod Sends
