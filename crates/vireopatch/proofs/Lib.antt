pub mod Shown
pub mod Demand
pub mod Part
pub mod Spelling
pub mod Claims
