pub mod Counts
pub mod Puts
pub mod Answered
pub mod Lent
pub mod Examples
