pub mod Walking
mod Running
