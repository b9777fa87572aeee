pub mod Exported
pub mod Imported
pub mod Puts
