pub mod Members
pub mod Inside
pub mod Constructors
-- means of proof
pub mod Building
