pub mod Library
pub mod Table
pub mod Places
pub mod Naming
pub mod Expressions
pub mod Declarations
pub mod Parts
pub mod Whole
