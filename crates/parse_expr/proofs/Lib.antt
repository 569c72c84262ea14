pub mod Halving
pub mod Cascading
pub mod Behind
