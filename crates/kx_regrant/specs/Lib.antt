pub mod Regrant
pub mod Internal
