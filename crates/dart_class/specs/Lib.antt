pub mod Given
pub mod Around
-- means of proof
pub mod Homes
