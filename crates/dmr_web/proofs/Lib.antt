mod Ended
mod Heads
mod LookingBack
mod Pictures
mod Texts
mod Windows
