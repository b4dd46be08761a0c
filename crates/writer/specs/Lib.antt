pub mod Texts
pub mod Fields
pub mod Answers
pub mod Level
pub mod Sizes
