pub mod Worlds
pub mod Connections
pub mod Posting
pub mod Wanting
pub mod Dumping
pub mod Ends
pub mod Causes
