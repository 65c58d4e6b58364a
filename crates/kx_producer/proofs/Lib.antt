pub mod Batches
pub mod Following
pub mod Judging
pub mod Standing
pub mod Tables
