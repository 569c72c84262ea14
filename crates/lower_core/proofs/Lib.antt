pub mod Slots
pub mod Programs
