pub mod Facts
pub mod Leaving
pub mod Noting
pub mod Standings
pub mod Tables
