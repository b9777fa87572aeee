pub mod ControlBlocks
pub mod DataHeaders
pub mod Records
pub mod Values
