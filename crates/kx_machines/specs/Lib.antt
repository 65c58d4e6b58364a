pub mod Any
pub mod Brokers
