pub mod Ends
pub mod Pictures
pub mod Texts
pub mod Drawing
pub mod Steps
