pub mod Rest
pub mod Trees
pub mod Tried
pub mod Labelled
pub mod Closed
pub mod Looped
pub mod Looping
pub mod Local
