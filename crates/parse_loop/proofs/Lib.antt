pub mod Plain
pub mod Trailing
pub mod Alike
