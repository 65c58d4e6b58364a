pub mod Entries
pub mod Following
pub mod Looking
