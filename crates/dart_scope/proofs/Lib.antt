pub mod Pairs
pub mod Meant
pub mod Passing
pub mod Few
