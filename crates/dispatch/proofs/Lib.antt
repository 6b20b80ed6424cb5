pub mod Choices
pub mod Doors
pub mod Lasts
pub mod Leaves
pub mod Ones
pub mod Splits
pub mod Stored
