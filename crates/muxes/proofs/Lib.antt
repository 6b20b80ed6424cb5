pub mod Hots
pub mod Leaves
pub mod Puts
pub mod Lents
pub mod Splits
