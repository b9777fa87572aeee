pub mod CallEntries
pub mod TryEntries
pub mod WholeLogs
