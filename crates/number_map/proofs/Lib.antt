pub mod Apart
pub mod Changes
pub mod Mapped
pub mod Tables
