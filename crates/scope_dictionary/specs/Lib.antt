pub mod Written
pub mod Entries
pub mod Dictionary
pub mod Names
