pub mod Ends
pub mod Marks
pub mod Paths
pub mod Words
pub mod Suffixes
pub mod Solids
