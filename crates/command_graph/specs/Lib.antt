pub mod Dot
pub mod Graph
pub mod Labels
pub mod Quoted
pub mod Reading
pub mod Standing
