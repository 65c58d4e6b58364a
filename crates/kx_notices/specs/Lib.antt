pub mod Dates
pub mod Rates
pub mod Texts
