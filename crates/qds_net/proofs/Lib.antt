pub mod NetLaws
pub mod StatusLaws
pub mod EndLaws
pub mod Connecting
pub mod CauseLaws
pub mod DecidedLaws
