pub mod Solids
pub mod Numbers
pub mod Strings
pub mod Kept
