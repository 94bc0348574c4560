pub mod Sign
pub mod Path
pub mod Level
