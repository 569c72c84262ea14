pub mod Rows
pub mod Headers
pub mod Members
pub mod Source
pub mod Resolved
pub mod Formed
pub mod View
