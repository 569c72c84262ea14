pub mod Kinds
pub mod Entries
pub mod Directives
pub mod Libraries
