pub mod Faults
pub mod Mat
pub mod Outs
