pub mod Walks
pub mod Parts
pub mod Sharing
