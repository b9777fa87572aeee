pub mod FullLc
pub mod Options
pub mod Sealed
pub mod Voice
