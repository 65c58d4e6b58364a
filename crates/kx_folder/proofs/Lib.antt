pub mod Changed
pub mod Lines
