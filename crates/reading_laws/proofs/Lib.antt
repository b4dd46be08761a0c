pub mod Entries
pub mod Single
pub mod Stored
pub mod Examples
