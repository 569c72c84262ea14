pub mod Takes
pub mod Passing
pub mod Answering
pub mod Skipping
