pub mod Opening
pub mod Finding
pub mod Link
pub mod Memoized
pub mod Coming
pub mod Extending
pub mod Standing
pub mod Hopping
