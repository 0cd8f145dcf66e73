pub mod Rowing
pub mod Joining
mod Worked
