pub mod Headline
pub mod Refusals
pub mod Shown
