pub mod Letters
pub mod Cells
pub mod Rows
pub mod Csv
pub mod Moves
pub mod Stays
pub mod Examples
