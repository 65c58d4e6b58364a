pub mod Calls
pub mod Internal
