-- means of proof
pub mod Tree
pub mod Index
