pub mod Clients
pub mod Sending
