pub mod Session
pub mod Command
pub mod Printing
pub mod Script
pub mod Running
