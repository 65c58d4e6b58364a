pub mod Events
pub mod Processor
pub mod System
