pub mod Signs
pub mod Months
pub mod Clock
pub mod Lengths
pub mod Whole
pub mod Less
pub mod Ends
pub mod Examples
