pub mod Bodies
pub mod Exact
pub mod Fronts
pub mod OneText
pub mod Streams
