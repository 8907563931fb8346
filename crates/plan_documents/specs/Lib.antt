pub mod Answer
pub mod Document
pub mod EntryDocument
pub mod Fields
pub mod Parts
pub mod Reading
pub mod Report
pub mod Version
