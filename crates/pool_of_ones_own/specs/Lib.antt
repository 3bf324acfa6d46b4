pub mod Shelves
pub mod Stack
