pub mod Turned
pub mod Operated
pub mod Got
pub mod Listed
pub mod Written
pub mod Partly
pub mod Ordered
pub mod Small
