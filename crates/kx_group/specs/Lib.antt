pub mod Log
pub mod Follows
pub mod Opening
pub mod Calls
pub mod Internal
