pub mod Nothing
pub mod Senses
pub mod Adding
pub mod Parameters
pub mod Parts
pub mod Inside
pub mod Written
