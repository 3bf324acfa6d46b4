pub mod Areas
pub mod ClosedPools
pub mod CopyLemmas
pub mod Held
pub mod KeptLemmas
pub mod Steps
pub mod Tied
pub mod Vacated
mod MarkViews
mod Placed
mod MarkSteps
mod Sides
mod Forgotten
