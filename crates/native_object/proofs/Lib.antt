pub mod Sets
pub mod Methods
