pub mod Stages
pub mod Order
pub mod Allocated
pub mod Storage
pub mod Codes
pub mod Calls
pub mod Inside
pub mod Sizes
