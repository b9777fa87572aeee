pub mod Built
pub mod Comparing
pub mod Faultless
pub mod Reading
pub mod Sums
pub mod Writing
