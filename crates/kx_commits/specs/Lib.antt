pub mod Kept
pub mod Follows
pub mod Table
