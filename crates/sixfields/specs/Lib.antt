pub mod Six
pub mod Refusals
pub mod Back
pub mod Ends
