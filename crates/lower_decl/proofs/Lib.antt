pub mod Rest
pub mod Trees
pub mod Counted
pub mod Parameters
pub mod Begun
pub mod Stops
pub mod Statics
