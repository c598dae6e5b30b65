pub mod Truth
pub mod Range
pub mod Sorted
pub mod Fitting
pub mod Divisors
pub mod Evaluation
pub mod Variables
pub mod Equality
