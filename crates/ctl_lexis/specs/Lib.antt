pub mod Bytes
pub mod Spelling
pub mod Words
pub mod Delimiters
pub mod Places
pub mod Pieces
pub mod Lexis
pub mod Reading
