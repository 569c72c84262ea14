pub mod Lists
pub mod Next
pub mod Steps
pub mod Ordered
pub mod Placed
