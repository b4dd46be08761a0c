pub mod Readable
pub mod Fields
