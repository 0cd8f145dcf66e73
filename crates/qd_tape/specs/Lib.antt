pub mod Reading
pub mod Scripts
pub mod Tapes
pub mod Writing
