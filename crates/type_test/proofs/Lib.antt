pub mod Walked
pub mod Forms
pub mod Decided
