-- What the crate's own functions say to one another.
pub mod Messages
pub mod Equal
pub mod Table
