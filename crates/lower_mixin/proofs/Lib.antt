pub mod Rest
pub mod Built
pub mod Named
pub mod Picked
