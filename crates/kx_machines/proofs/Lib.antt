mod Allowing
pub mod Numbers
