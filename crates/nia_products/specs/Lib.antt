pub mod Squares
pub mod Products
pub mod Enriching
pub mod machine
