pub mod Logs
pub mod Meaning
pub mod Stores
