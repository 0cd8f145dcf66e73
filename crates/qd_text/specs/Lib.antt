pub mod Cursor
pub mod Near
pub mod Reading
pub mod SchemeLines
