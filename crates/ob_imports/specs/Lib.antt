pub mod Names
pub mod Files
pub mod Graphs
pub mod Outcomes
pub mod Numbering
