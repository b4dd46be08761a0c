pub mod Pieces
pub mod Answered
pub mod Faults
pub mod Derived
pub mod Back
pub mod Theorems
pub mod Examples
