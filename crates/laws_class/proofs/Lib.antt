pub mod Graphs
pub mod Nexts
pub mod Rows
pub mod Faults
pub mod Seen
pub mod Classes
pub mod Tables
pub mod Sizes
