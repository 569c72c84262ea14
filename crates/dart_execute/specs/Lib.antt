pub mod Execution
pub mod Laws
-- means of proof
pub mod Joined
