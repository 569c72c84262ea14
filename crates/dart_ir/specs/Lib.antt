pub mod Ty
pub mod Classes
pub mod Integer
pub mod Kind
pub mod Object
pub mod TyCode
