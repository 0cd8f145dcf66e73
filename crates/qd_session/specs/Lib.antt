pub mod Ins
pub mod Laws
