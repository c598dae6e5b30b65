pub mod Truth
pub mod Measure
pub mod Operations
pub mod Translation
pub mod machine
