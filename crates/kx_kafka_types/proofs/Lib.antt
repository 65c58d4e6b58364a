pub mod Repeated
pub mod Onto
pub mod Agree
pub mod Exact
pub mod Written
