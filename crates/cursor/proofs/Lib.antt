pub mod Agree
pub mod Places
pub mod Lows
pub mod Laws
pub mod Rounds
pub mod Loops
pub mod Exits
pub mod Once
