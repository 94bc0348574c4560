pub mod Class
pub mod Kind
pub mod Piece
pub mod Refusal
pub mod Answers
