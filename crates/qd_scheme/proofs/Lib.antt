pub mod KeyLaws
pub mod Padding
pub mod Schemes
