pub mod Relaxing
pub mod machine
