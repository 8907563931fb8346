pub mod Choosing
pub mod Words
