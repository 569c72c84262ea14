mod Like
mod Graphs
mod Faults
mod Rows
mod Sizes
mod Declared
mod Loosened
pub mod Shapes
mod Large
pub mod Rowed
pub mod Laws
pub mod Agreed
pub mod More
pub mod TableNames
