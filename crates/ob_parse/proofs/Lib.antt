pub mod Boxes
pub mod StatementSteps
pub mod FilesRead
