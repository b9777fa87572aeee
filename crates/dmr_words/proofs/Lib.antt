pub mod Decimals
pub mod Feeds
pub mod Gathering
pub mod Parts
pub mod Telling
