pub mod Beginning
pub mod Faults
pub mod Following
pub mod Internal
pub mod Pending
pub mod Whole
