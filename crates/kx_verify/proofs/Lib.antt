pub mod Asking
pub mod Messages
pub mod Pairs
pub mod Same
pub mod Tables
