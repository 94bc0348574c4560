pub mod Words
pub mod Bytes
pub mod Totals
pub mod Part
pub mod Spelling
