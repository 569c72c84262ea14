pub mod Cutting
pub mod Initializing
pub mod Scanning
pub mod Seeking
pub mod Stages
