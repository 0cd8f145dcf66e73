pub mod Asking
pub mod Dumps
pub mod Posts
pub mod Reading
pub mod Rules
