pub mod Stripes
pub mod Steps
pub mod Laws
