pub mod Configs
pub mod Hubs
pub mod Owns
pub mod Clients
pub mod OfStripe
