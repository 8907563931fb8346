pub mod Names
pub mod Objects
pub mod Parts
pub mod Roots
pub mod Summary
pub mod Why
pub mod Words
