pub mod Passing
pub mod Staying
pub mod Alone
pub mod Escapes
pub mod Drawn
pub mod Ends
pub mod PathSteps
