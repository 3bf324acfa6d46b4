pub mod Heading
pub mod Kept
pub mod Memory
pub mod Parts
pub mod Read
pub mod Reads
pub mod View
