pub mod Columns
pub mod Entries
pub mod Faults
pub mod Kinds
pub mod Part
pub mod Printed
pub mod Rows
pub mod Whole
