pub mod Points
pub mod Picking
pub mod machine
