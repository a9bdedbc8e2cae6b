pub mod DistinctSymbols
pub mod Documents
pub mod Externals
pub mod StoredTexts
pub mod Named
pub mod Boundaries
pub mod Symbols
