pub mod Labelling
pub mod Opening
pub mod Selecting
pub mod Staged
pub mod Trying
