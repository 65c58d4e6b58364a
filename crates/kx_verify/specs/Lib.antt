pub mod Request
pub mod Guard
pub mod Internal
