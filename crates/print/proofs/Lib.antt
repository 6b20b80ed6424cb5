pub mod Laws
pub mod Numbers
pub mod Prints
pub mod Rows
