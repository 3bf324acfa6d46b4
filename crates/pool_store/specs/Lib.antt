pub mod Cells
pub mod Entries
pub mod Fault
pub mod Joined
pub mod Kept
pub mod Kinds
pub mod Marks
pub mod Store
