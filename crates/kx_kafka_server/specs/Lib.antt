pub mod Advertised
pub mod Callers
pub mod Named
pub mod Numbers
pub mod Untaken
pub mod Users
