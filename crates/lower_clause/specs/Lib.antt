pub mod Jumps
pub mod Parts
