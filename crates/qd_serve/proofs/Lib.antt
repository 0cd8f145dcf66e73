pub mod Homing
pub mod Listing
pub mod Lines
pub mod Counting
pub mod OneMore
