pub mod Size
pub mod Built
-- means of proof
pub mod Bound
