pub mod Lines
pub mod Marks
