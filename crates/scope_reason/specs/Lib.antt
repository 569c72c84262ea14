pub mod Declarations
pub mod Main
pub mod Reason
