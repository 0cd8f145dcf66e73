pub mod Cells
pub mod Cuts
pub mod Descriptions
pub mod FrontCells
pub mod FrontNames
pub mod Joins
pub mod Judged
pub mod Lengths
pub mod Near
pub mod SchemeFields
mod SchemeRows
