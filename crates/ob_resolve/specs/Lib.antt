pub mod Precomputed
pub mod Positions
pub mod Selected
pub mod StoredKinds
pub mod Used
