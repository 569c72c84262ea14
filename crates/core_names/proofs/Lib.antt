pub mod Below
pub mod Back
pub mod Found
pub mod Bare
