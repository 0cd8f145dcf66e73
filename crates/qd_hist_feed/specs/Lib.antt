pub mod Feeding
pub mod Inside
pub mod Stands
pub mod Laws
