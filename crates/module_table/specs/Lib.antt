pub mod Blocks
pub mod TableStages
pub mod Order
pub mod Parts
pub mod Tables
pub mod Trees
