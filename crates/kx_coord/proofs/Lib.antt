pub mod LastRows
pub mod Following
pub mod HandedOut
pub mod Reopening
pub mod NotedTables
pub mod NotedCounts
pub mod Completing
pub mod Responding
