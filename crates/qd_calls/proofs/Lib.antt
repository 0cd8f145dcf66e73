pub mod Growing
mod Nothing
pub mod Adding
mod Parts
pub mod Sizes
pub mod Soundness
mod Turning
