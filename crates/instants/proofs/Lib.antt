pub mod Sums
pub mod Shift
pub mod Theorems
pub mod Examples
pub mod Counted
pub mod Cases
pub mod Meaning
