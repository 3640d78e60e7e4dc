pub mod Hash
pub mod Kept
pub mod Words
