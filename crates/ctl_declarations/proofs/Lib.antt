pub mod Positions
pub mod Profiles
mod Yielded
