pub mod Members
pub mod Needs
pub mod Groups
