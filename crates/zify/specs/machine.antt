pub mod Refusal
pub mod Table
pub mod Walking
