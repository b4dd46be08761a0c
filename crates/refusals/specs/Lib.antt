pub mod Refusal
pub mod Offset
