pub mod Statements
pub mod Members
pub mod Mending
