mod Choosing
mod Looking
mod Turning
pub mod Sending
mod Slotting
