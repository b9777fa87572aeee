pub mod Cells
pub mod Ends
pub mod Puts
pub mod Refused
pub mod Told
