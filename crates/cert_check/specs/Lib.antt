pub mod Verdict
pub mod Room
pub mod Checking
pub mod Held
pub mod Uses
pub mod Example
