pub mod Annotations
pub mod Heads
pub mod Listed
pub mod Looking
pub mod Parameters
pub mod Stages
pub mod Trying
pub mod Variables
