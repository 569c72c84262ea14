pub mod Meaning
pub mod Program
pub mod Making
