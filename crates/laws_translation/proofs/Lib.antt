mod Kept
mod Ends
mod Firsts
mod TypesSame
mod Referred
mod Expressed
mod Stated
mod Closed
mod Parameters
mod Bared
mod Declared
mod Classed
mod Members
mod Bodied
mod Added
mod Named
pub mod Whole
mod Either
pub mod Again
