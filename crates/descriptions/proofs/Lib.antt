pub mod Separators
pub mod PlainBytes
pub mod Parts
pub mod WordLists
pub mod ValueTexts
pub mod RowTexts
pub mod OneAnswer
pub mod TextStanding
pub mod Acceptance
pub mod Fits
mod FieldValues
mod Firsts
mod ReadingProgress
mod Signs
mod Words
mod Joining
mod RowsLeft
mod WritingProgress
pub mod TextRoom
