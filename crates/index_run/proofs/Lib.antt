pub mod InRow
pub mod Documents
pub mod IndexRuns
pub mod Packages
pub mod SameBytes
pub mod Digits
pub mod AcceptedRuns
