pub mod Lending
pub mod Newest
pub mod Table
