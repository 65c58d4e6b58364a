pub mod Again
pub mod Alike
pub mod Faults
pub mod Made
pub mod Replay
pub mod Taking
