mod Beginnings
mod Fitting
pub mod Giving
pub mod Prints
mod Quiets
mod Rounds
