pub mod Budget
pub mod Options
pub mod Words
