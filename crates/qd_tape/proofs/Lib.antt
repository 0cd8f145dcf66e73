pub mod Blocks
pub mod PlainLines
pub mod Printing
mod Rows
pub mod ScriptLaws
pub mod Sources
pub mod Symbols
pub mod TapeLaws
pub mod WholeLaws
