pub mod Tally
pub mod Fitting
pub mod Plan
pub mod Walk
pub mod Numbering
pub mod Digesting
