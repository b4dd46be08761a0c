pub mod Lists
pub mod Joins
pub mod Said
pub mod Fields
pub mod Flags
