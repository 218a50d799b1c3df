pub mod Places
pub mod Pointing
