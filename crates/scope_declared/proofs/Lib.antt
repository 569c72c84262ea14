pub mod Ending
pub mod Finding
