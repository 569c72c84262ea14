pub mod Rest
pub mod Trees
pub mod Walking
pub mod Cascades
pub mod Rowing
pub mod Pushing
pub mod Making
pub mod Targets
