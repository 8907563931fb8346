pub mod Events
pub mod Idle
pub mod Index
pub mod Names
pub mod Sound
pub mod Stands
pub mod Undo
pub mod Words
