pub mod Breaks
pub mod Briefs
pub mod Fault
pub mod Marks
pub mod Places
pub mod Session
pub mod Trail
