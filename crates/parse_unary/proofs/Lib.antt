pub mod Signs
pub mod Targets
pub mod Staged
