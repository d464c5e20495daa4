pub mod Answers
pub mod Lines
pub mod Output
pub mod Plan
pub mod Session
pub mod Steps
pub mod Request
