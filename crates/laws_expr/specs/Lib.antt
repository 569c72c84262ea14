pub mod Nexts
pub mod Statements
