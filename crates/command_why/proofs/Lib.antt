mod Answered
mod JobParts
mod ObjectText
