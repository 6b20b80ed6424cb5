pub mod Codes
pub mod Mux
