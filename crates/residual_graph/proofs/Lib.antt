pub mod Augmenting
pub mod Following
pub mod Grouping
pub mod Keeping
pub mod Listing
pub mod Searching
pub mod Walking
