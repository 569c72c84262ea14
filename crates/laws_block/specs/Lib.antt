pub mod Begun
pub mod Statements
