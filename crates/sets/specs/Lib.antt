pub mod Insert
pub mod Sets
