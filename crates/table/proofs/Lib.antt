pub mod Holds
pub mod Zeros
