pub mod Faults
pub mod Schema
pub mod Reading
pub mod Rows
pub mod Writing
pub mod Spelling
pub mod Seen
