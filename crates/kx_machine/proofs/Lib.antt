pub mod Fitting
mod Growing
