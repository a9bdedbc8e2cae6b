pub mod Globs
pub mod Exclusions
