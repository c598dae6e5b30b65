pub mod Box
pub mod Ends
pub mod Cube
pub mod machine
