pub mod Read
pub mod Text
pub mod Word
pub mod Agree
