pub mod Adding
mod Asking
mod Cuts
mod Heads
mod Spelled
mod Together
