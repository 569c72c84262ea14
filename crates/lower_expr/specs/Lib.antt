pub mod Made
pub mod Behind
