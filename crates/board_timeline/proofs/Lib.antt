mod Ascending
mod Entries
mod NewRows
mod Parts
mod ReadingLaws
mod TextLaws
