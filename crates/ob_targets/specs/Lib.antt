pub mod Predeclared
pub mod SyntaxPosition
pub mod SyntaxPositionKinds
pub mod Targets
pub mod Steps
pub mod Refers
pub mod ScopeRule
