pub mod Hinted
pub mod Meant
pub mod Nodes
pub mod Seen
pub mod Standing
pub mod Walks
