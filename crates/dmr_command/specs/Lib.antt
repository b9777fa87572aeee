pub mod Places
pub mod Request
