pub mod Cells
pub mod Content
pub mod Known
pub mod Laws
