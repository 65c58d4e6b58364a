pub mod Claims
pub mod Codes
pub mod Fetched
pub mod Replies
