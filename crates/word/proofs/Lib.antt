pub mod Facts
mod Arms
mod Picks
mod Hashes
