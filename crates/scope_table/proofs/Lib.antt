pub mod Ordered
pub mod Best
pub mod Clash
