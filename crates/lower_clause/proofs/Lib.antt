pub mod Rest
pub mod Trees
pub mod Joined
pub mod Formed
pub mod Cased
pub mod FirstKind
