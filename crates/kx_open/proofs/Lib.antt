pub mod Pairs
pub mod Order
pub mod Ending
pub mod Following
