pub mod Mono
pub mod Poly
pub mod Room
pub mod Renaming
pub mod Product
pub mod Insertion
pub mod Point
pub mod Tests
