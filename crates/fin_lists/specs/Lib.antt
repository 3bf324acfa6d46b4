pub mod Lists
pub mod Masters
pub mod Members
