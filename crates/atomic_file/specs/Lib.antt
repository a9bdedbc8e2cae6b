pub mod Entries
pub mod Faults
pub mod Replacements
pub mod StepFaults
