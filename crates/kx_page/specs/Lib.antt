pub mod Alike
pub mod Drawing
pub mod Page
pub mod Pieces
pub mod Places
