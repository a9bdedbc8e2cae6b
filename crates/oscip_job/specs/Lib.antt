pub mod Jobs
pub mod Making
