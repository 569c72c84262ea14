pub mod Identity
pub mod IdentityView
pub mod Shown
pub mod ShownView
pub mod Object
