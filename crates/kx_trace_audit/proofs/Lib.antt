pub mod Ahead
pub mod Mapped
pub mod Peeked
pub mod Records
pub mod Telling
pub mod Texts
pub mod Traces
