pub mod Tallies
pub mod Rows
pub mod Steps
pub mod Reports
pub mod Ends
pub mod Sorts
pub mod Inside
pub mod Parts
