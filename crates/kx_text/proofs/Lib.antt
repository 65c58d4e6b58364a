pub mod Cuts
pub mod Dumping
pub mod Firsts
pub mod Numbers
pub mod Pairs
pub mod Performing
pub mod Reading
pub mod Writes
