pub mod Fault
pub mod Files
pub mod Reads
pub mod Writes
pub mod Memory
pub mod MemorySink
pub mod Real
