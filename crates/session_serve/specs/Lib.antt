pub mod Pairing
pub mod Report
pub mod Serving
pub mod Spelling
pub mod Rightness
