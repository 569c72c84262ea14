pub mod Nothing
pub mod Inner
pub mod Forwarding
pub mod Constructing
