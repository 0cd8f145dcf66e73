pub mod LogParts
pub mod HistoryParts
pub mod Delivered
