pub mod Limits
pub mod Numerals
pub mod Taken
