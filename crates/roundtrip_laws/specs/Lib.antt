pub mod Domain
pub mod Fields
pub mod Level
pub mod Stored
pub mod Letters
pub mod Days
pub mod Ported
