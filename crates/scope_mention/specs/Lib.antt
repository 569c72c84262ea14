pub mod Head
pub mod Mention
pub mod Text
pub mod Written
