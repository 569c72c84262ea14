pub mod Behind
pub mod Choosing
pub mod Ends
pub mod Parts
pub mod Repeating
pub mod Rests
pub mod Stages
pub mod Turns
