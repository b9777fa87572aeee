pub mod Blocks
pub mod Existing
