pub mod Graphs
pub mod Flows
pub mod OutArcs
pub mod Groups
pub mod Trees
pub mod Searches
pub mod Spreading
