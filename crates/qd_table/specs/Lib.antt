pub mod Tables
pub mod Steps
pub mod Sound
pub mod Standing
pub mod Judging
pub mod Stored
pub mod Bits
