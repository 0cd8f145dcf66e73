pub mod Calls
pub mod Groups
pub mod Laws
pub mod Lists
pub mod Made
pub mod Texts
