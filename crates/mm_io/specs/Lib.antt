pub mod Cause
pub mod Memory
pub mod Reading
pub mod Writing
