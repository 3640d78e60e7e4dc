pub mod Steps
pub mod Copies
pub mod Laws
pub mod Clear
pub mod Notes
