pub mod Account
pub mod Changes
pub mod Conditions
pub mod Laws
