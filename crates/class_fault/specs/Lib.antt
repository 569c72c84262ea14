pub mod Program
pub mod Graph
pub mod Reach
pub mod Fault
-- means of proof
pub mod Scan
pub mod Search
