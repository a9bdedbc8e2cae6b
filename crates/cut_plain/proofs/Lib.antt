pub mod Descending
pub mod Measure
