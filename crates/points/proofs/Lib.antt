pub mod Ranges
pub mod Back
pub mod Times
pub mod Clocks
pub mod Accepted
pub mod Examples
