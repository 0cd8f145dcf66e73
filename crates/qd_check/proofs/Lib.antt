pub mod CheckLaws
pub mod FmtLaws
pub mod Gathering
mod Rows
pub mod RunLaws
