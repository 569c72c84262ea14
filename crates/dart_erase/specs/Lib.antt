pub mod Erased
pub mod UnitErased
pub mod Thinned
pub mod Precedence
