pub mod Fractions
pub mod Combining
pub mod machine
