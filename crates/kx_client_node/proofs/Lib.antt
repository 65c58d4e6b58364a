pub mod Declining
mod Turns
