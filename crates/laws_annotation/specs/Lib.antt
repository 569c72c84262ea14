pub mod Erased
pub mod Tables
pub mod Loading
