pub mod Passing
pub mod Replies
