pub mod Sums
pub mod Whole
pub mod Laws
pub mod Decimal
pub mod Reading
pub mod Trims
pub mod Examples
