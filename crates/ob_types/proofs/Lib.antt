pub mod SameDeclaration
pub mod Backwards
pub mod Telling
pub mod CommonModules
pub mod Within
pub mod PrecomputedEnds
pub mod Lending
