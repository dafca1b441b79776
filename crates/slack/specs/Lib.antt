pub mod Slack
pub mod Figure
