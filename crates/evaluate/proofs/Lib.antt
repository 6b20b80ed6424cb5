pub mod Ones
pub mod Turns
