pub mod Declaring
pub mod Expressions
pub mod SelectorEntries
pub mod Statements
pub mod Types
pub mod Naming
