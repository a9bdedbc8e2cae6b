pub mod World
pub mod ModuleNumbers
pub mod WorldOfParts
pub mod TargetKinds
