pub mod Bodies
pub mod Invocable
pub mod Missing
