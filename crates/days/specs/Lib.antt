pub mod Days
pub mod Covered
pub mod Faults
pub mod Counts
pub mod Table
pub mod Ways
