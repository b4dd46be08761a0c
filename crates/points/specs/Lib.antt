pub mod Step
pub mod Time
pub mod Point
pub mod Accepted
