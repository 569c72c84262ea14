pub mod Graphs
pub mod Reached
pub mod Found
pub mod Acyclic
