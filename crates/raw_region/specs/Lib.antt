pub mod Fault
pub mod Ownership
pub mod Places
