pub mod Text
pub mod Value
