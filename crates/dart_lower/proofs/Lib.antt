pub mod Units
pub mod Tables
