pub mod Declaring
pub mod Turns
