pub mod Records
pub mod Around
pub mod Parts
pub mod Values
pub mod Defaults
pub mod Texts
pub mod Layout
pub mod Run
