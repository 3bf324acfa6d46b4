pub mod Trees
pub mod Relation
pub mod Layers
pub mod Induction
pub mod Glue
pub mod Bodies
pub mod Due
pub mod Advance
pub mod Cuts
pub mod SameAnswers
pub mod MoreClock
pub mod Emptied
pub mod Candidates
pub mod Order
pub mod Proved
pub mod worked
mod AuditSamples
