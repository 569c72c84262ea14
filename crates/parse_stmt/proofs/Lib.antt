pub mod Beginning
pub mod Following
pub mod Handling
pub mod Labelled
pub mod Stages
pub mod Updating
