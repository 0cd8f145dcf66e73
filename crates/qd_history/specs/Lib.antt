pub mod Tracks
pub mod Sides
pub mod Rooms
pub mod Sound
pub mod Steps
