pub mod Relations
pub mod Heights
pub mod Fronts
pub mod Readings
