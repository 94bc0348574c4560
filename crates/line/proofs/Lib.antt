pub mod Lines
pub mod Fills
pub mod Parts
pub mod Stretches
pub mod Rows
