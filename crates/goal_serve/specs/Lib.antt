pub mod Answering
pub mod KeyName
pub mod Line
pub mod Reply
pub mod machine
