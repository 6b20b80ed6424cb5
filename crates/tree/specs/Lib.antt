pub mod Checked
pub mod Form
pub mod Grown
pub mod Says
