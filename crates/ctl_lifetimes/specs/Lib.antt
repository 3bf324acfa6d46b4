pub mod Adjusting
pub mod Emptying
pub mod GivingUp
pub mod NewValues
pub mod Resuming
pub mod Takings
pub mod Undoing
