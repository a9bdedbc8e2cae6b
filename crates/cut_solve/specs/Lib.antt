pub mod Faults
pub mod MaximumFlow
pub mod Lines
pub mod Settling
pub mod Solving
pub mod Starts
pub mod Turns
