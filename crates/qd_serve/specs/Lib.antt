pub mod Homes
pub mod Printing
pub mod Serving
pub mod Steps
