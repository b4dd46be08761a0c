pub mod Judged
pub mod Filled
pub mod Back
pub mod Refusals
pub mod Examples
pub mod Seasons
pub mod Flags
