pub mod Plain
pub mod Meaning
pub mod Written
pub mod Fits
pub mod Writers
pub mod Streaming
pub mod Ranges
