pub mod Aligned
pub mod Conditionals
pub mod Ordered
pub mod Wholes
