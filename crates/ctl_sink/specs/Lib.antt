pub mod Prefix
pub mod Through
