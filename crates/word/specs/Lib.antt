pub mod Words
pub mod Hash
