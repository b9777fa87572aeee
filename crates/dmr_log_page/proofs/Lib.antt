pub mod Endings
pub mod RowLemmas
pub mod Taken
