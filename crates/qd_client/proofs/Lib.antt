pub mod DumpLaws
pub mod Leaves
pub mod PostLaws
pub mod Prints
pub mod TextLaws
pub mod ThroughLaws
