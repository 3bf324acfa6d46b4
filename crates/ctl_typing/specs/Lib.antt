pub mod Allocating
pub mod Judgement
pub mod Lookup
pub mod Putting
pub mod Senses
pub mod Typing
