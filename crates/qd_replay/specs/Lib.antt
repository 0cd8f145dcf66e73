pub mod Settings
pub mod Replies
pub mod Scripts
pub mod Running
pub mod Taking
pub mod Steps
pub mod Ends
pub mod Deciding
