pub mod Polynomial
pub mod Alternatives
pub mod Naming
pub mod Clauses
pub mod Key
pub mod machine
