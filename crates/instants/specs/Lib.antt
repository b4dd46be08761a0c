pub mod Instants
pub mod Stands
