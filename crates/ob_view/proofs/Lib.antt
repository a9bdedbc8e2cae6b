pub mod Firsts
pub mod Ascending
