pub mod Entry
pub mod Index
