pub mod Existing
pub mod Fields
pub mod Masks
pub mod Options
pub mod SealedForms
