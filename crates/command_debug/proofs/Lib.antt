pub mod Answering
pub mod Asked
pub mod Debugged
pub mod Numerals
pub mod OneRequest
pub mod OneSession
