pub mod Blocks
pub mod Lots
pub mod Rows
pub mod Subpools
