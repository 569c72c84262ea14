pub mod Numbered
pub mod Instance
pub mod Written
pub mod Annotated
pub mod Seen
