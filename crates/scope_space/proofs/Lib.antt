pub mod Parts
pub mod Marks
pub mod Members
pub mod Bounds
pub mod Entries
pub mod Answering
pub mod Once
