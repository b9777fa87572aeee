pub mod Field
pub mod Word
