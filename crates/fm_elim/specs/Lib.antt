pub mod Unknowns
pub mod Tidy
pub mod Steps
pub mod Elimination
pub mod Points
pub mod Answers
pub mod machine
