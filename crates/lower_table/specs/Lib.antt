pub mod Rows
pub mod Seen
pub mod Table
pub mod Made
