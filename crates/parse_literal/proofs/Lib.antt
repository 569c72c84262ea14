pub mod Listings
pub mod Passed
pub mod Staged
pub mod Strings
pub mod Tried
