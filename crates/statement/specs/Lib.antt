pub mod Shapes
pub mod Heads
pub mod Lined
