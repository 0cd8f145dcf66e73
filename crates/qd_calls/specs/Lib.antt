pub mod Cutting
pub mod Dues
pub mod Hearing
pub mod Joining
pub mod Turns
