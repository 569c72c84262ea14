pub mod Finish
pub mod Transcript
