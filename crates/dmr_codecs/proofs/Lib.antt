pub mod Fragments
pub mod LinkControls
pub mod Spelling
