pub mod Advancing
pub mod Finding
pub mod Comparing
pub mod OnLogs
pub mod Reading
pub mod Restarting
pub mod Texts
