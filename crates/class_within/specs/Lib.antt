pub mod Seen
pub mod View
pub mod Names
pub mod Within
pub mod Built
