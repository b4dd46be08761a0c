pub mod Entries
pub mod Store
pub mod Calls
pub mod Asked
pub mod History
pub mod Inside
pub mod Order
