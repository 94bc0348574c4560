pub mod Shares
pub mod Words
pub mod Claims
pub mod Steps
pub mod Answers
