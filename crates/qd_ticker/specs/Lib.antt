pub mod Pending
pub mod Legal
pub mod Asking
pub mod Kept
pub mod Stripes
pub mod Steps
pub mod Sound
