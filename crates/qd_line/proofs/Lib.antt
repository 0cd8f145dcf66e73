pub mod Feeds
pub mod LineLaws
pub mod Pasts
pub mod Texts
