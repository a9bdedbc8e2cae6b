pub mod Apart
pub mod Subnetworks
pub mod Marks
pub mod CapacityReduction
pub mod Reach
pub mod Renumbering
pub mod WeightSums
pub mod Reversal
