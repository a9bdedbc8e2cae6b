pub mod Subcommands
pub mod Found
pub mod Numbers
pub mod Ranged
