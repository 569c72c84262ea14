pub mod Only
pub mod Leaves
