mod Agreeing
pub mod AskedOnce
mod Becoming
mod Changing
mod ClosedRuns
pub mod Endings
mod FirstLegs
mod Going
mod Grouping
mod Members
mod MetFirst
mod Noting
mod Obstacles
pub mod OpenedJobs
mod Past
pub mod Reasons
mod SkippedJobs
mod Staying
mod Telling
pub mod Trees
