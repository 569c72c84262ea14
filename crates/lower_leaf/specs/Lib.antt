pub mod Around
pub mod Forms
pub mod Seen
pub mod Gives
pub mod Kept
pub mod Nests
