pub mod Verdicts
pub mod MatchedLines
pub mod Reaching
pub mod Sums
