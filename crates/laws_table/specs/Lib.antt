pub mod Roots
pub mod Shape
pub mod Loose
