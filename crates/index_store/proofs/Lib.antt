pub mod LineLemmas
pub mod NoDevice
pub mod Runs
pub mod TellingRuns
pub mod TableLemmas
pub mod StoreLemmas
pub mod AskedLemmas
pub mod OneSymbol
pub mod DirectLaws
pub mod SymbolLaws
mod ShortSymbols
