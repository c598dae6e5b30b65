pub mod Line
pub mod LineRead
pub mod Fitting
pub mod Report
pub mod Progress
pub mod Place
pub mod machine
pub mod Whole
