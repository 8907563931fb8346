pub mod Accounts
pub mod Lawful
pub mod Members
pub mod Named
pub mod Numbers
pub mod Stops
