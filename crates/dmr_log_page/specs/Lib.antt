pub mod Cells
pub mod Minutes
pub mod Pages
pub mod Part
pub mod Rows
