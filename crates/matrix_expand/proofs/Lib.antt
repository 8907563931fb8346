pub mod Chosen
pub mod Entries
pub mod Filters
pub mod Numbers
pub mod Overlays
pub mod Products
pub mod SameValues
pub mod Values
