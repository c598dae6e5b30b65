pub mod Words
pub mod Reporting
pub mod Ending
pub mod machine
