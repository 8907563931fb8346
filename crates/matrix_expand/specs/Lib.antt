pub mod Choices
pub mod Combos
pub mod Expands
pub mod Faults
pub mod Laws
pub mod Same
