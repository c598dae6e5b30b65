pub mod Words
pub mod Numbers
pub mod Tokens
pub mod Spelling
pub mod Spacing
