-- means of proof
pub mod Lists
