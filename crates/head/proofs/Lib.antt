pub mod Steps
pub mod Wholes
pub mod Bounds
pub mod Arguments
pub mod Tests
pub mod Statements
pub mod Kept
