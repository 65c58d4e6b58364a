pub mod Lines
pub mod Runs
pub mod Tally
pub mod Telling
