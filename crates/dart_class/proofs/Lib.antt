pub mod Classes
pub mod Same
pub mod Formed
pub mod Aliases
pub mod Rows
pub mod Units
pub mod Built
pub mod Over
