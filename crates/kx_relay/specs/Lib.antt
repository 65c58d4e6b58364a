pub mod Chance
pub mod Line
