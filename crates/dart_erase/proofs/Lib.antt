mod Erasing
pub mod Twice
pub mod Shallower
pub mod Fitting
pub mod Thinning
pub mod Facts
