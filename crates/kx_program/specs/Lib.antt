pub mod Asking
pub mod Drawing
pub mod Endings
pub mod Program
pub mod Tasks
pub mod Telling
pub mod Usage
