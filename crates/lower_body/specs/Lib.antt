pub mod Inside
pub mod Views
