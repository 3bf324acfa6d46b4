pub mod Ends
pub mod Shown
mod Standing
