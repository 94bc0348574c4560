pub mod Answers
pub mod Part
pub mod Spelling
pub mod Steps
