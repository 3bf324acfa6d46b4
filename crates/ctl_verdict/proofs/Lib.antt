pub mod Verdicts
pub mod WellTyped
