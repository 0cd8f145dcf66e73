mod Texts
mod Dues
pub mod Takes
pub mod Halts
pub mod Runs
pub mod DecidingLaws
pub mod Legality
mod Alone
mod Rows
