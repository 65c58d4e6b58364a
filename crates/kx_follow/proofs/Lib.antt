pub mod Lists
pub mod Sending
pub mod History
pub mod Counting
pub mod Stepping
pub mod Ending
