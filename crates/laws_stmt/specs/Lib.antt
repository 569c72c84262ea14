pub mod Besides
pub mod Statements
