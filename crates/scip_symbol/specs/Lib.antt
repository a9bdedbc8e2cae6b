pub mod Bytes
pub mod Faults
pub mod SymbolTexts
pub mod Views
pub mod Outcomes
pub mod Reading
