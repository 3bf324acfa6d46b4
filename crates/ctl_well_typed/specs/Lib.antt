pub mod Setting
pub mod Types
pub mod Expressions
pub mod Statements
pub mod Programs
