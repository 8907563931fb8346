pub mod Answers
pub mod Debug
pub mod Requests
pub mod Session
