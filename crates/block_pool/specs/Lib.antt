pub mod FreeList
pub mod Pool
