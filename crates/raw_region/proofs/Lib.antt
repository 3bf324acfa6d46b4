pub mod PlaceLemmas
pub mod Spans
pub mod Opaque
pub mod Runs
pub mod Walks
