pub mod Brokers
pub mod Faults
pub mod Logs
pub mod Publishing
pub mod Readable
