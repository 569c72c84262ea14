pub mod Library
pub mod Hands
pub mod Namespace
pub mod Entry
-- means of proof
pub mod Building
