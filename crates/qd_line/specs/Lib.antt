pub mod Cutter
pub mod Held
pub mod Inside
pub mod Lines
