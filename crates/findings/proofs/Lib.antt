pub mod Runs
pub mod Texts
pub mod Bounds
pub mod Short
pub mod Shape
pub mod Sorts
pub mod Once
pub mod Examples
