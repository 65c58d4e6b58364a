pub mod Opening
pub mod Publishing
pub mod Showing
pub mod WrittenSteps
