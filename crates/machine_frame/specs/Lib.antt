pub mod Natives
pub mod Outside
pub mod Labels
pub mod Frames
pub mod Kinds
pub mod Above
