pub mod AsBox
pub mod Boxes
pub mod Waiting
pub mod Words
