pub mod Fetch
pub mod Page
pub mod Reply
pub mod Sent
pub mod Answer
pub mod Opening
pub mod Faults
pub mod Internal
