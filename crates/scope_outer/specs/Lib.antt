pub mod Sense
pub mod Outside
