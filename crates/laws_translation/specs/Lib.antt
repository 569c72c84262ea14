pub mod LinedLeaf
pub mod Lined
pub mod LinedUnit
pub mod Bare
