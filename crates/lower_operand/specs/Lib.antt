pub mod Operators
pub mod Made
pub mod Held
