pub mod Counts
pub mod DecidingLaws
pub mod EveryText
pub mod LineOrder
pub mod StepLaws
mod EndRows
