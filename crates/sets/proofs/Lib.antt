pub mod Ascends
pub mod Inserts
pub mod Laws
pub mod Unions
