pub mod Bounds
pub mod Accepted
pub mod Written
pub mod Hyphens
pub mod Examples
