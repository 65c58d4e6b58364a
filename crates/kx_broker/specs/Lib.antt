pub mod Fetching
pub mod Memory
pub mod Offsets
pub mod Serving
