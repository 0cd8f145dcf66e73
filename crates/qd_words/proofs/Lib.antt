pub mod OptionWords
pub mod RestLaws
pub mod WordLaws
mod Rows
pub mod ScriptWords
pub mod CutLaws
mod NetRows
mod ServeRows
