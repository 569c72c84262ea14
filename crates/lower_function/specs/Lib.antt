pub mod Literals
pub mod Uses
pub mod Formals
pub mod Made
