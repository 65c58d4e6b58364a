pub mod Clients
pub mod Memory
