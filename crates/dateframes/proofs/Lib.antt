pub mod Stops
pub mod Blocks
