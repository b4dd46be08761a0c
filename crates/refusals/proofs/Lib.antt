pub mod Sums
pub mod Numbers
pub mod Told
pub mod Examples
