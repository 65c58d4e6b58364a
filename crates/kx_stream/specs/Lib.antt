pub mod Faults
pub mod Reader
pub mod Sending
pub mod Serving
pub mod Stream
