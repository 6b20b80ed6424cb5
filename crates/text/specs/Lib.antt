pub mod Calls
pub mod Longs
pub mod Scan
pub mod Steps
pub mod Taken
pub mod Trees
