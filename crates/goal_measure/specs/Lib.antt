pub mod Measure
pub mod Bounding
