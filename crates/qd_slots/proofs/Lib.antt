pub mod NameLaws
pub mod IndexLaws
pub mod HoldLaws
pub mod ViewLaws
