pub mod Codes
pub mod Leaves
pub mod Reads
pub mod Statements
