pub mod Bools
pub mod Keep
pub mod Lists
pub mod One
pub mod Runs
pub mod Vec
