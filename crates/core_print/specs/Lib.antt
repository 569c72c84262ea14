pub mod Core
pub mod Root
pub mod Printed
