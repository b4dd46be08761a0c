pub mod Finding
pub mod Marks
pub mod Places
pub mod Examples
