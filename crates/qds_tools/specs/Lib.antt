pub mod FaultLines
pub mod Statuses
pub mod Commands
pub mod Program
pub mod Scripting
pub mod Telling
pub mod Answers
