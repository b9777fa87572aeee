pub mod Checksum
pub mod Contents
pub mod Datagram
pub mod Spelling
