-- What this crate's own functions say to one another; no contract of a public call names it.
pub mod Parts
