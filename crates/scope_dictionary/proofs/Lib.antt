pub mod Texts
pub mod Numbers
pub mod Entries
pub mod Building
pub mod Putting
pub mod Prefixes
