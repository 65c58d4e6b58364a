pub mod Standing
pub mod Follows
pub mod Table
