pub mod Slots
pub mod Listed
pub mod Short
pub mod Table
pub mod Up
