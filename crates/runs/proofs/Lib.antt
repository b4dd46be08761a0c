pub mod Reports
pub mod Theorems
pub mod Pieces
pub mod Onwards
