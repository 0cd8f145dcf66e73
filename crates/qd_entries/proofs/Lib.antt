pub mod Falling
pub mod Forks
pub mod Counting
