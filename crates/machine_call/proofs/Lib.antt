pub mod Alone
pub mod Bodies
pub mod Creates
pub mod Equal
pub mod Objects
pub mod Operand
pub mod Pushed
pub mod Told
mod Bound
