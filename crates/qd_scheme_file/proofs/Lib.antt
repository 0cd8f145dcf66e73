pub mod ReadLaws
pub mod EndLaws
mod Rows
