pub mod Escapes
pub mod Words
pub mod Lines
pub mod Sorts
pub mod Runs
