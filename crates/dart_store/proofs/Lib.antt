pub mod Sets
pub mod Numbers
pub mod PoolLaws
