pub mod Entries
pub mod Balance
pub mod Nodes
pub mod Depth
pub mod Stocked
pub mod Stocks
pub mod Kept
pub mod Keeping
