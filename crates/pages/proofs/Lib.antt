pub mod Sums
pub mod Walk
pub mod Entries
pub mod Written
pub mod Answers
pub mod Back
pub mod Several
pub mod Examples
