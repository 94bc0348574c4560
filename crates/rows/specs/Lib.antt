pub mod Tops
pub mod Answers
