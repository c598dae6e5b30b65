pub mod Small
pub mod Quotient
pub mod Divisor
pub mod Frac
pub mod Power
pub mod Option
pub mod Result
