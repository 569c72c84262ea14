pub mod Open
pub mod Stages
pub mod Nests
