pub mod Ringing
pub mod Places
