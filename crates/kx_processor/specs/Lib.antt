pub mod Batches
pub mod Calls
pub mod Internal
pub mod Running
pub mod Prefixed
