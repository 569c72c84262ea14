pub mod Placing
pub mod Law
pub mod Rowed
pub mod Typed
