pub mod Choice
pub mod Good
