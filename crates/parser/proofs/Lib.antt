pub mod Room
pub mod Ends
pub mod Demand
