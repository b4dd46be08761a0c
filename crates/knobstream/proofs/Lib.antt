pub mod Made
pub mod Laws
pub mod Direct
pub mod Words
pub mod Examples
