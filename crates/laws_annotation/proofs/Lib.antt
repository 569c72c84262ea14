mod Mapped
mod Lasts
mod Declares
mod UnitDeclares
mod Heads
mod Loads
mod Libraries
mod Entries
mod Stretches
mod Programs
mod Classes
pub mod Scopes
mod Signatures
mod HeaderTypes
mod Members
mod Rows
pub mod Given
mod Reached
pub mod Tabled
