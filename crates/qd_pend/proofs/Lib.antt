pub mod ListLaws
pub mod LinkLaws
pub mod ChainLaws
pub mod QueueLaws
