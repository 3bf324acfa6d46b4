mod Stages
pub mod Threes
