pub mod Scope
pub mod Members
pub mod IdentifierNames
pub mod QualifiedUses
pub mod Scoped
pub mod Weights
pub mod ScopesInvariant
pub mod Aliases
