pub mod Operator
pub mod Simple
