pub mod Renumbered
pub mod Program
pub mod Rows
pub mod Members
pub mod Built
