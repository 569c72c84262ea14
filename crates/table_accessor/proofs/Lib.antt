pub mod Stays
pub mod Equal
