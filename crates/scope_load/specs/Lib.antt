pub mod Names
pub mod Found
pub mod State
pub mod Judge
pub mod Load
