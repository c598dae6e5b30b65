pub mod Rows
pub mod Form
pub mod Walk
pub mod Farkas
pub mod Solved
pub mod machine
