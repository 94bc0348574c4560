pub mod Divisors
pub mod Pool
pub mod Ranks
pub mod Order
pub mod Tests
pub mod Words
pub mod Claims
pub mod Kept
