pub mod Identity
pub mod Pair
pub mod Place
pub mod Printing
