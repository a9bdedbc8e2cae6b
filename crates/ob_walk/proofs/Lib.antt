pub mod DeclarationWalks
pub mod ExpressionWalks
pub mod NameWalks
pub mod Passes
pub mod StatementWalks
pub mod TypeWalks
pub mod Walks
