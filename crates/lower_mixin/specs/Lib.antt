pub mod Built
pub mod Views
