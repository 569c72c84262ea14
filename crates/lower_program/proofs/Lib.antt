pub mod Rest
pub mod Trees
pub mod Tabled
pub mod Declared
pub mod Answered
