pub mod Courses
pub mod Faults
pub mod Files
pub mod Opening
pub mod Owed
pub mod Skipping
pub mod Tying
pub mod Limits
