pub mod Behind
pub mod Finds
pub mod Picks
pub mod Suffix
pub mod Around
pub mod Spaced
