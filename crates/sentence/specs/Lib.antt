pub mod Sentence
pub mod Steps
