mod LabelLaws
mod Parts
mod ReadingLaws
