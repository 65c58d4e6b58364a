pub mod Layouts
pub mod Apis
pub mod Requests
pub mod Frames
pub mod Spelling
