pub mod Judging
pub mod Spelling
