pub mod Draft
pub mod Freezing
pub mod Marks
pub mod Names
pub mod Operations
