mod Lists
mod Alike
mod Over
mod Named
pub mod Scoped
pub mod Absorbing
