pub mod Lists
pub mod Turning
pub mod Telling
pub mod Summing
pub mod Running
pub mod Alone
