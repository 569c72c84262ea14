pub mod Items
pub mod Looking
pub mod Nodes
