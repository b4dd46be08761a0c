pub mod Pick
pub mod Utf8
pub mod Table
pub mod Classes
pub mod Upper
pub mod Ascii
pub mod Signs
