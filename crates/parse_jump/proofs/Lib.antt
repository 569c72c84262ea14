pub mod Behind
pub mod Looking
pub mod Loops
pub mod Stages
