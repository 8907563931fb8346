pub mod Answered
mod Copied
pub mod Counted
pub mod Kept
pub mod LastCalls
pub mod Launches
pub mod Lawfulness
mod MaskedExits
pub mod Quiet
pub mod Recorded
pub mod Scripts
pub mod Turns
mod Variables
