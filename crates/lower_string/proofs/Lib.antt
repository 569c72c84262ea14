pub mod Also
