pub mod Lays
pub mod Nets
pub mod Ones
pub mod Reader
pub mod RowsIn
pub mod Scans
pub mod Trees
pub mod Values
