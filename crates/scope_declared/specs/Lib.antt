pub mod Kinds
pub mod Last
pub mod Number
pub mod Making
pub mod TreeDeclared
pub mod UnitDeclared
