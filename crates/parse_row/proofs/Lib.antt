pub mod Behind
pub mod Passed
pub mod Passing
pub mod Signs
pub mod Steps
pub mod Tails
