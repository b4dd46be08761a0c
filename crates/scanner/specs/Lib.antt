pub mod Class
pub mod Scan
pub mod Quick
