pub mod Silent
pub mod Reported
pub mod Written
