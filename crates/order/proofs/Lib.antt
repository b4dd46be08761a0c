pub mod Numbers
pub mod Laws
pub mod Seasons
pub mod Examples
