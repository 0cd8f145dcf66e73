pub mod Closing
pub mod LinkIns
pub mod LinkOuts
pub mod Waits
