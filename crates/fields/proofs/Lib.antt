pub mod Examples
pub mod Days
pub mod Ranges
pub mod Letters
pub mod Named
