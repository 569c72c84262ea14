pub mod Order
pub mod Lookup
pub mod Duplicate
pub mod Instance
