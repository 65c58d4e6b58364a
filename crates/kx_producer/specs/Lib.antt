pub mod Known
pub mod Verdicts
pub mod Follows
