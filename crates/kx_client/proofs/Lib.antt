pub mod Counts
pub mod Inits
pub mod Numbers
pub mod Sending
pub mod Sizes
pub mod Tables
pub mod Texts
