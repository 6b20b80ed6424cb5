pub mod Ones
pub mod Places
pub mod Updates
