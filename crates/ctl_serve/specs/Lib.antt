pub mod Reading
pub mod Served
pub mod Statuses
