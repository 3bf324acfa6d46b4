pub mod Grouped
pub mod Moved
pub mod Counted
