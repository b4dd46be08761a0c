pub mod Dates
pub mod Windows
pub mod Century
pub mod Plain
pub mod Fields
pub mod Means
