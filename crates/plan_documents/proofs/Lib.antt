pub mod EntryLaws
pub mod Fitting
pub mod Laws
pub mod PlanLaws
mod Steps
