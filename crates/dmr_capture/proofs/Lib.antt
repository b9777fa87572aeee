pub mod Blocks
pub mod Filled
pub mod Fronts
pub mod InARow
pub mod ReadTo
pub mod Records
pub mod Rests
pub mod WrittenReading
