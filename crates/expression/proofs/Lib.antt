pub mod Facts
pub mod Steps
pub mod Parts
pub mod Flags
pub mod Factor
pub mod Terms
pub mod Levels
pub mod Calls
