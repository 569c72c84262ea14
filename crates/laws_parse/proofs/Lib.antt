pub mod Behind
pub mod Parts
pub mod Members
pub mod Declarations
pub mod Units
pub mod Found
