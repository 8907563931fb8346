mod BoardLaws
mod LoadLemmas
mod Numerals
mod OneLine
mod OutlineLaws
mod PrintedLaws
pub mod RecordLemmas
mod SpelledLaws
