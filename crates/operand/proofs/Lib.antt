pub mod Facts
pub mod Paren
pub mod Steps
pub mod Forms
pub mod Pairs
