mod Commands
mod Ending
mod Finding
mod Reading
