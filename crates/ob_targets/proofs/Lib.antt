pub mod Followed
pub mod Referred
pub mod Unresolved
pub mod OneReferences
pub mod Somewhere
pub mod OneContext
pub mod Aliased
pub mod ScopeRule
