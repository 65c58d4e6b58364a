pub mod MemberId
pub mod Faults
pub mod Protocols
pub mod Roster
pub mod Votes
pub mod Group
pub mod Steps
pub mod Internal
