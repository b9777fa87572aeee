pub mod Commands
pub mod Found
