pub mod Placing
pub mod Making
pub mod Stepping
pub mod Leading
pub mod Passing
pub mod Turning
pub mod Happening
