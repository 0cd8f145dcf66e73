pub mod Places
pub mod TickerPaths
pub mod StreamPaths
pub mod HistoryLinks
pub mod Rises
pub mod HistoryPaths
mod Rows
