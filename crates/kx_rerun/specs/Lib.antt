pub mod Events
pub mod Making
pub mod Stepping
