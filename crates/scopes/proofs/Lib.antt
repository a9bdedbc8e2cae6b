pub mod Counting
pub mod Meanings
pub mod Resolutions
