pub mod Putting
pub mod Sorts
pub mod Heads
pub mod Reading
pub mod Passes
