pub mod Calendar
pub mod Ends
pub mod Value
pub mod Time
pub mod Domain
pub mod Clocks
