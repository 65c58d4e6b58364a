pub mod Asking
pub mod Faults
pub mod Lines
pub mod Queues
pub mod Reading
pub mod Ticking
