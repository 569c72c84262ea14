-- means of proof
pub mod Testing
