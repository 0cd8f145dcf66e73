pub mod Bits
pub mod Shown
pub mod Following
pub mod Commits
pub mod Laws
pub mod Listening
