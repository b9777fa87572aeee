pub mod Apart
pub mod Devices
pub mod Digits
pub mod Ending
pub mod More
pub mod RunEnd
pub mod Summary
pub mod Told
