pub mod Known
pub mod Values
