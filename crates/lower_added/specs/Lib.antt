pub mod Added
pub mod Written
pub mod Natives
