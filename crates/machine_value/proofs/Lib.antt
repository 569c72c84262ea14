pub mod Checked
pub mod Closures
pub mod Joined
pub mod Shown
pub mod Supertypes
