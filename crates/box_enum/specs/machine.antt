pub mod Reading
pub mod Edges
pub mod Searching
pub mod Trying
pub mod Putting
pub mod Places
pub mod Trunks
pub mod Walling
