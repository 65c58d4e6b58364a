pub mod Doubling
pub mod Endings
pub mod WholePage
