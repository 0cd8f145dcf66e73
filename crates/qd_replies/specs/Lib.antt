pub mod Asked
pub mod Laws
pub mod Outs
pub mod Tools
