pub mod Lists
pub mod Refused
pub mod Scripts
