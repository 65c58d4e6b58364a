pub mod Stores
pub mod Logs
pub mod Same
pub mod Steps
pub mod Settling
pub mod Taking
pub mod Restarting
