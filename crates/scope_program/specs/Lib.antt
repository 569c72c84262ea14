pub mod Classes
pub mod Program
pub mod Around
pub mod Places
pub mod Made
