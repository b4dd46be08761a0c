pub mod Texts
pub mod Answers
pub mod Faults
pub mod Domain
