pub mod Slots
pub mod Linked
