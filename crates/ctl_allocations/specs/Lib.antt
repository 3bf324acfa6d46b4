pub mod Calling
pub mod Several
