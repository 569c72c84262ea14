pub mod Constants
pub mod Place
pub mod Chain
pub mod Shown
pub mod Produced
