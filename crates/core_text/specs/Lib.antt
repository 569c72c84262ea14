pub mod Line
pub mod Name
pub mod Constant
pub mod Types
pub mod Head
pub mod Form
pub mod Declaration
pub mod Program
