pub mod EscapeLemmas
pub mod FieldCuts
pub mod FieldNames
pub mod FieldNumbers
pub mod LaneRuns
pub mod NamePrefixes
