-- What this crate's own functions say to one another; no contract of a public call names it.
pub mod Answers
pub mod Deciding
pub mod Drafts
pub mod Follows
