pub mod Goodness
pub mod Rightness
pub mod Served
pub mod machine
