pub mod Chain
pub mod Outputs
pub mod Premises
pub mod Promises
pub mod Visible
pub mod Written
pub mod OpenSystems
