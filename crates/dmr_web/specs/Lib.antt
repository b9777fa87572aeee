pub mod Calls
pub mod Heads
pub mod LookingBack
pub mod Numbers
pub mod Pictures
pub mod Windows
