pub mod Language
pub mod Laws
pub mod Outcome
pub mod Program
pub mod Status
pub mod Tool
