pub mod Sequences
pub mod Grant
pub mod Steps
pub mod Codes
pub mod Heard
pub mod Fencing
pub mod Producer
