pub mod Spelt
pub mod Turns
