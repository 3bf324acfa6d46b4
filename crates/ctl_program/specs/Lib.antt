pub mod Library
pub mod Limits
