pub mod Names
pub mod Indexed
pub mod Holds
pub mod Views
pub mod Kept
