pub mod Pieces
pub mod Levels
pub mod Answered
pub mod Bounds
pub mod Examples
