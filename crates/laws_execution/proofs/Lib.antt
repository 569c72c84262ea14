pub mod Across
pub mod Bare
pub mod Erased
pub mod Kept
pub mod Ran
