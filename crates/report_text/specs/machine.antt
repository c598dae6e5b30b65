pub mod Reading
pub mod Reads
pub mod Parts
pub mod Kinds
pub mod Steps
