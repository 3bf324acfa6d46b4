pub mod Known
pub mod Sound
pub mod Law
pub mod Library
