pub mod Rest
pub mod Within
pub mod Walking
pub mod Drafted
pub mod Fielded
pub mod Typed
pub mod Copied
pub mod Accessed
