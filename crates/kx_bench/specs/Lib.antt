pub mod Logs
pub mod Reads
