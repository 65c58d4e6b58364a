pub mod Found
pub mod OnePass
pub mod Raising
