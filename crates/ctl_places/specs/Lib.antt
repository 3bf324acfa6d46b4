pub mod Freeing
pub mod Gathering
pub mod Granting
pub mod Parts
pub mod Passing
pub mod PoolBlocks
pub mod StorageCalling
