pub mod Given
pub mod Seen
pub mod Roots
pub mod Built
