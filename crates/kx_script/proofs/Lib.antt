pub mod Underway
pub mod Words
pub mod Performing
pub mod Lines
pub mod Carrying
pub mod Answering
pub mod Reading
mod Rules
mod Worked
pub mod Worlds
