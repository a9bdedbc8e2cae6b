pub mod MeaningLaws
pub mod WritingSteps
pub mod OutcomeLaws
pub mod Picking
pub mod Again
pub mod RoundTrips
pub mod PartLaws
pub mod StreamingLaws
pub mod CheckedLaws
mod CleanOccurrences
pub mod InPlace
pub mod CompactOccurrences
