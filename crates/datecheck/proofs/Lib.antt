pub mod Filled
pub mod Taking
pub mod Turning
