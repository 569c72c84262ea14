pub mod Produced
pub mod Turn
