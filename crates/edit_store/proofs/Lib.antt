mod Stepping
mod Storing
