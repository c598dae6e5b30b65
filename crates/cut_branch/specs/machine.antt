pub mod Scaling
pub mod Combining
