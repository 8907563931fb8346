pub mod Adds
pub mod Ancestors
pub mod Notes
pub mod Queues
pub mod Stops
