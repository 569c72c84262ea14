pub mod Order
pub mod Rows
-- means of proof
pub mod Walk
