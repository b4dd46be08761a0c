pub mod Plain
pub mod Layout
pub mod Back
pub mod Entries
pub mod Moments
pub mod Ranges
