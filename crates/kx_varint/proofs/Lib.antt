pub mod Agree
pub mod Bounds
pub mod FixedWidth
pub mod Laws
pub mod Many
pub mod Writing
