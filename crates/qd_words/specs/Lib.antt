pub mod Words
pub mod Asking
pub mod Given
pub mod Scripts
pub mod Cutting
pub mod NetAsking
pub mod ServeAsking
