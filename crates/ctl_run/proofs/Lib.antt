pub mod BrokenOff
pub mod Composed
pub mod Going
pub mod Orderly
pub mod Printed
pub mod Refused
pub mod Sources
