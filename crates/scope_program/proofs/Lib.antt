pub mod Positions
pub mod Spots
pub mod Trees
pub mod Accessors
pub mod Scopes
pub mod Programs
