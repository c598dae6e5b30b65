pub mod Parts
pub mod Text
pub mod Binders
pub mod ReadsBack
