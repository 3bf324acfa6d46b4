pub mod Elaboration
pub mod Parts
pub mod Subprograms
