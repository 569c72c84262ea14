pub mod Names
pub mod Within
