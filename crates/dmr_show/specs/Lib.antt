pub mod Filter
pub mod Forms
pub mod Held
pub mod Printed
pub mod Records
pub mod Showing
