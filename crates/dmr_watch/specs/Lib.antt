pub mod Devices
pub mod Ears
pub mod Heard
pub mod Reached
pub mod Slots
