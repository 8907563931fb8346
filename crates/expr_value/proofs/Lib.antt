mod Agreeing
mod Braces
mod DigitLemmas
mod FormatLaws
mod Fronts
mod Growing
mod Joins
mod JsonAgain
mod JsonNumbers
pub mod JsonTexts
mod Lists
mod Mirror
mod OrderedValues
mod Runs
mod Searches
mod JoinedTexts
mod Statuses
mod Steps
