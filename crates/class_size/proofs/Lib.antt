pub mod Bounded
pub mod Larger
pub mod Firsts
