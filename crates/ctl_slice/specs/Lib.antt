pub mod Constructs
pub mod Places
