pub mod Settled
pub mod Outcome
pub mod machine
