pub mod Rest
pub mod Creating
pub mod Trees
pub mod Signs
pub mod TypeLaws
pub mod Given
pub mod Joining
