pub mod Counting
pub mod Faults
pub mod Pages
pub mod Telling
