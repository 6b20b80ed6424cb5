pub mod Assumes
pub mod Ones
