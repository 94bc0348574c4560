pub mod Refusal
pub mod Answers
pub mod Seen
pub mod Demand
