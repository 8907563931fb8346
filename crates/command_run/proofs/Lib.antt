pub mod Counting
pub mod Entries
pub mod Grown
pub mod LogTexts
pub mod Played
pub mod Telling
pub mod Variables
