pub mod Lists
pub mod Room
pub mod Frame
pub mod Answers
