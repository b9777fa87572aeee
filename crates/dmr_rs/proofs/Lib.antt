pub mod Correcting
pub mod Field
pub mod Near
pub mod Powers
pub mod Products
pub mod Roots
