pub mod Text
pub mod Check
pub mod Place
pub mod Reading
pub mod Whole
