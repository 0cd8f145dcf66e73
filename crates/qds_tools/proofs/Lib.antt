pub mod DecidedLaws
pub mod ScriptLaws
mod Rows
