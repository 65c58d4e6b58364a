pub mod Clients
pub mod Sent
pub mod World
pub mod Internal
pub mod Local
