pub mod FreeListLemmas
pub mod HeldCounts
pub mod Steps
