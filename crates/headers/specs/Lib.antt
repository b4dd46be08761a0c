pub mod Names
pub mod Columns
pub mod Tables
pub mod Header
