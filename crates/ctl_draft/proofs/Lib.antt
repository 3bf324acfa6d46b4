pub mod Behind
pub mod Changes
pub mod Drafts
pub mod InTurn
pub mod Joined
pub mod Named
