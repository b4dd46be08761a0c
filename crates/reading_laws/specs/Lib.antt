pub mod Field
pub mod Fields
pub mod Single
