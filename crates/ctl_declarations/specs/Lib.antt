pub mod Declarations
pub mod Types
