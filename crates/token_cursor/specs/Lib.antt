pub mod Brackets
pub mod Gives
pub mod Views
