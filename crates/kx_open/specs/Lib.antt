pub mod Open
pub mod Faults
