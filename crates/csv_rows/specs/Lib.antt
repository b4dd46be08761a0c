pub mod Reader
pub mod Answers
pub mod Texts
pub mod Bytes
pub mod Grammar
pub mod Faults
pub mod Written
pub mod Scans
