pub mod Elements
pub mod Groups
pub mod SearchResult
pub mod Steps
pub mod TableRows
pub mod Around
pub mod Counted
