pub mod Year
pub mod Month
pub mod Day
pub mod Names
