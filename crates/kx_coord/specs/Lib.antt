pub mod Noted
pub mod CoordinatorState
pub mod Calls
pub mod Internal
