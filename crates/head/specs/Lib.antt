pub mod Parts
pub mod Heads
pub mod Lists
pub mod Tails
